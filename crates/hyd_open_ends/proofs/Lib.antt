mod EndsBySeconds
